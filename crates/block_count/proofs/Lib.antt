-- Laws of the count of blocks and of waiting, by subject. Nothing here needs to be believed: it is all proved.
pub mod AnyOrder
pub mod Blocks
pub mod Buckets
pub mod Coming
pub mod Counted
pub mod Different
pub mod Known
pub mod Passing
pub mod Seen
pub mod Stamps
pub mod Sums
pub mod Sweep
pub mod Taken
pub mod Waits
pub mod Written
