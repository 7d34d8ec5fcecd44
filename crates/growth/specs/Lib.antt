-- The work tables, and what growing a forest promises.
pub mod Work
pub mod Growth
pub mod Moves
pub mod Lists
