-- Laws of exchanges, and of taking in a list. Nothing here needs to be believed: it is all proved.
pub mod Exchanges
pub mod First
pub mod Lowered
pub mod Puts
pub mod Rest
