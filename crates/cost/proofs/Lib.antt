-- Laws of the figures, by subject. Nothing here needs to be believed: it is all proved.
pub mod Dealt
pub mod Divided
pub mod Filling
pub mod Laid
pub mod Summed
pub mod Sums
pub mod VolumeBound
