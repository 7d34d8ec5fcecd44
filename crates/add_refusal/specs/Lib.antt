-- What adding is refused for.
pub mod Refused
pub mod Steps
