-- What two vertices of a forest have in common.
pub mod Common
pub mod Answer
pub mod Steps
