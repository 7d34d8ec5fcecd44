pub mod Accepted
pub mod Chain
pub mod Outcomes
