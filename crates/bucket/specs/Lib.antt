-- Edges counted by one of their ends, and filed by their upper end.
pub mod CountingSteps
pub mod Ends
pub mod Filed
pub mod Placed
pub mod PlacingSteps
