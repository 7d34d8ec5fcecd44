-- Laws of the reaches. Nothing here needs to be believed: it is all proved.
pub mod Higher
