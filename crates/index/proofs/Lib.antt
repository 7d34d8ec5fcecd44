-- Laws by subject.
pub mod Accepted
pub mod Laid
pub mod Refused
