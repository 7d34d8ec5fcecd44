-- The call Read: what it is refused for, and the net that it leaves.
pub mod Read
