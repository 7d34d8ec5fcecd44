-- What a report writes of a net.
pub mod Steps
pub mod Tables
pub mod Written
