-- What a division costs, and the blocks as nets of their own.
pub mod Figures
pub mod Laid
pub mod Steps
pub mod SummingSteps
