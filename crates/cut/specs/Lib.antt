-- The cutting of a forest into groups, and what its steps ask of each other.
pub mod Cut
pub mod Steps
