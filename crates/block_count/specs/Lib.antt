-- The blocks that a vertex meets, and how many of its edges their count takes.
pub mod BlockCount
pub mod CountingSteps
pub mod Example
pub mod Taken
pub mod WaitingSteps
