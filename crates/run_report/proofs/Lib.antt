-- Laws of the steps. Nothing here needs to be believed: it is all proved.
pub mod Dividing
pub mod Growing
pub mod Reporting
pub mod Zeroed
