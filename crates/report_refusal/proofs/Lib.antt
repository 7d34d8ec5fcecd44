-- Laws of the early refusals. Nothing here needs to be believed: it is all proved.
pub mod Told
