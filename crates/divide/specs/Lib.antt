-- The call that divides a forest: what it is refused for, what it writes, and what is claimed of it.
pub mod Divide
pub mod Division
pub mod Paper
pub mod Steps
pub mod Tables
