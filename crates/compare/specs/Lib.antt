-- A list that is said to be a net's own: what it is refused for, and its net compared.
pub mod Compare
pub mod Likeness
pub mod OwnSteps
pub mod Steps
