-- A list of edges taken into a net, and what putting in single edges promises.
pub mod Extending
pub mod Putting
