-- Laws of cutting, by subject. Nothing here needs to be believed: it is all proved.
pub mod Sums
pub mod Groups
pub mod Halving
pub mod Filing
pub mod Lightening
pub mod Ranks
pub mod Climbing
pub mod Grouped
