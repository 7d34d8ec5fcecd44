-- What lies between two vertices, and what the call is refused for.
pub mod Example
pub mod Refused
pub mod Separate
pub mod Separates
