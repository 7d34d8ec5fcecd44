pub mod Filling
pub mod Copying
pub mod Summed
pub mod Zipped
