-- Laws of handing over. Nothing here needs to be believed: it is all proved.
pub mod Handed
pub mod Taken
