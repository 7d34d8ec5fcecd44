-- Laws of the report, by subject. Nothing here needs to be believed: it is all proved.
pub mod AnyOrder
pub mod Bounded
pub mod Outcome
pub mod Own
pub mod Refused
pub mod Shared
pub mod Taken
pub mod Together
