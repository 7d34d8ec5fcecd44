-- Laws of arcs. Nothing here needs to be believed: it is all proved.
pub mod Arcs
pub mod Sorting
