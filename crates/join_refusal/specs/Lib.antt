-- What joining is refused for.
pub mod Refused
