-- Orders and their inverses, and the two means of going by one.
pub mod Order
pub mod VertexSet
