-- The call Start: what it is refused for, and what it leaves.
pub mod Start
