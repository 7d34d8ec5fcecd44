-- Where a forest moved.
pub mod Example
pub mod Followed
pub mod Moved
pub mod Steps
