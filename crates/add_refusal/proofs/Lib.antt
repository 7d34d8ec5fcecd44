-- What adding is refused for, and what is known where it is not. Nothing here needs to be believed: it is all proved.
pub mod Accepted
pub mod Chain
pub mod Steps
