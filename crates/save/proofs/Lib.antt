pub mod Accepted
pub mod Records
