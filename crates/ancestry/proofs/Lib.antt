-- Laws of common ancestors, by subject. Nothing here needs to be believed: it is all proved.
pub mod Walk
pub mod Paths
pub mod Common
pub mod Written
pub mod Listed
