-- Link files.
pub mod LinkFile
