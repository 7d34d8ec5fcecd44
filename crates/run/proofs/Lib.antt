-- Laws of a run's text. Nothing here needs to be believed: it is all proved.
pub mod Finished
pub mod Front
