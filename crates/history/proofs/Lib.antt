pub mod Update
pub mod Steps
pub mod Theorem
pub mod Sound
pub mod Viewer
