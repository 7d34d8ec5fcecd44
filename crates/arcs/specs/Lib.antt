-- Edges seen from both of their ends.
pub mod Arc
pub mod Steps
