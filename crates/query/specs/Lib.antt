-- The run of a vertex, looked up in an index; what indexes and queries say together.
pub mod Neighbours
pub mod Query
