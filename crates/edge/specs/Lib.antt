-- A tie as the code has it, and the ties of a flat list that are still to come.
pub mod Tie
