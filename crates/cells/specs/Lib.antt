-- What a call hands to a caller in C.
pub mod Returned
pub mod Taken
