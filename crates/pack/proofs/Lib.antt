-- Laws of packing and of tournaments, by subject. Nothing here needs to be believed: it is all proved.
pub mod BlockLoads
pub mod Blocks
pub mod Lightest
pub mod Winners
