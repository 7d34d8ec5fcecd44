-- What is printed of an order and ties.
pub mod Steps
pub mod Text
