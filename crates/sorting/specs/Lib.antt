-- Entries sorted by their keys.
pub mod Keyed
pub mod Sorted
