-- Which inputs are refused, by document 01's numbers, and the limits of a division.
pub mod DivisionLimits
pub mod Limits
pub mod Numbers
pub mod Outcome
pub mod Refusal
pub mod Steps
pub mod Texts
pub mod Verdict
