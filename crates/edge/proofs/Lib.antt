-- Laws of edges by their number. Nothing here needs to be believed: it is all proved.
pub mod Reading
pub mod Splitting
