-- Laws of slots and overlaps, by subject. Nothing here needs to be believed: it is all proved.
pub mod Children
pub mod Climbing
pub mod Counts
pub mod Filing
pub mod Growing
pub mod Marking
pub mod Nets
pub mod Paths
pub mod Placing
pub mod SameEdges
pub mod Slots
pub mod Stretches
pub mod Summing
pub mod Turns
pub mod Visiting
