-- Laws of what lies between two vertices, by subject. Nothing here needs to be believed: it is all proved.
pub mod Outcome
pub mod Own
pub mod Refused
pub mod Roots
pub mod Separation
pub mod Walks
