-- Demand 3: no history of calls can bend the result.
pub mod World
pub mod Book
pub mod History
pub mod Viewer
pub mod Sound
