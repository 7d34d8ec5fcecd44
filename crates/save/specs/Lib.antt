-- The call Save: what it is refused for, and the bytes that it leaves.
pub mod Save
