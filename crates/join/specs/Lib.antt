-- The call Join: what it is refused for, and what it leaves.
pub mod Join
