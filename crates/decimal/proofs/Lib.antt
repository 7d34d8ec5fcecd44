-- Laws of decimal digits and of text put into a table. Nothing here needs to be believed: it is all proved.
pub mod Digits
pub mod Runs
pub mod Numbers
