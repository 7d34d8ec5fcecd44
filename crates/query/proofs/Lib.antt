-- Laws of starts that rise, of queries, and of indexes and queries together. Nothing here needs to be believed: it is all proved.
pub mod Accepted
pub mod Afresh
pub mod Offsets
pub mod Queries
pub mod Rising
pub mod Runs
