-- The early refusals of a report.
pub mod Refused
pub mod Steps
