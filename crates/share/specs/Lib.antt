-- The even share of a total.
pub mod Share
