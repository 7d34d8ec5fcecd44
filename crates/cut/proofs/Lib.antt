-- Laws of cutting, by subject. Nothing here needs to be believed: it is all proved.
pub mod Best
pub mod Carried
pub mod Chains
pub mod Lists
pub mod Scan
pub mod Trimming
pub mod Turns
