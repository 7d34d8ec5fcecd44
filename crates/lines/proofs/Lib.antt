-- Laws of text that is written piece by piece. Nothing here needs to be believed: it is all proved.
pub mod Lined
pub mod Pieces
