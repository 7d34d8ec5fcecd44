-- Laws by subject: counts, keys and values, one file for each loop, and what the loops need of each other.
pub mod Counts
pub mod Keys
pub mod Values
pub mod Tallied
pub mod Starts
pub mod Storing
pub mod Placing
pub mod Filing
pub mod Laid
