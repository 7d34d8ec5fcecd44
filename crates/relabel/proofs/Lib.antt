-- Laws of relabelled lists. Nothing here needs to be believed: it is all proved.
pub mod Accepted
pub mod Relabelled
pub mod Filled
