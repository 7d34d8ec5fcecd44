-- The call Add: what it is refused for, and what it leaves.
pub mod Add
pub mod Steps
