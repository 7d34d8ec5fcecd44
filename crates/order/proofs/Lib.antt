-- Laws of bit sets and of orders. Nothing here needs to be believed: it is all proved.
pub mod Bits
pub mod Entries
pub mod Fill
pub mod Rank
pub mod Scan
