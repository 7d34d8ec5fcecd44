-- The files of a run: what they say, and what they are refused for.
pub mod Files
pub mod Refused
pub mod Steps
