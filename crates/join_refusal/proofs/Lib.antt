pub mod Accepted
pub mod Chain
