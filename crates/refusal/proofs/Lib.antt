-- Laws of refusals, by subject. Nothing here needs to be believed: it is all proved.
pub mod DivisionLimits
pub mod Ends
pub mod Fault
pub mod First
pub mod ListRefusal
pub mod Numbers
pub mod Never
pub mod Sweep
