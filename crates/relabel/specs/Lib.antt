-- An edge list relabelled by an order.
pub mod Relabel
pub mod Steps
