-- Laws of comparing, by subject. Nothing here needs to be believed: it is all proved.
pub mod Compared
pub mod Ready
pub mod Sameness
pub mod Told
pub mod Unlike
