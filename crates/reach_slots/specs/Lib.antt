-- The slots of the edges, in stretches by subtree; visits of the edges, and where their paths end.
pub mod Balance
pub mod Given
pub mod InSlots
pub mod Jumps
pub mod Layout
pub mod Visit
