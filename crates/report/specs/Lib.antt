-- The call that reports on a division.
pub mod Paper
pub mod Report
pub mod SameReport
