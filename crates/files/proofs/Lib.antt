-- Laws of the files of a run. Nothing here needs to be believed: it is all proved.
pub mod Chain
pub mod Taking
pub mod Loading
pub mod Front
