-- Laws of where a forest moved.
pub mod Differ
pub mod Fallen
pub mod Followed
pub mod Linked
