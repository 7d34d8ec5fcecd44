pub mod Accepted
pub mod Check
pub mod Records
