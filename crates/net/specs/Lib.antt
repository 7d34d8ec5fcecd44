-- What damages a net.
pub mod Damage
