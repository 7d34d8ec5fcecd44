pub mod Laws
pub mod Passes
pub mod Promise
pub mod FirstList
pub mod Followed
