-- Laws of dividing, by subject. Nothing here needs to be believed: it is all proved.
pub mod Divided
pub mod Division
pub mod Laws
pub mod Refused
