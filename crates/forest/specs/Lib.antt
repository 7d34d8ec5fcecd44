-- What the forest crate promises of the nets that its calls leave.
pub mod Promise
