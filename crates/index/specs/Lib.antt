-- The index of neighbours of a list of edges.
pub mod Build
pub mod Example
pub mod Index
