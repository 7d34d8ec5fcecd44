-- Laws of lists that rise, and of taking them in.
pub mod Rising
pub mod Taking
