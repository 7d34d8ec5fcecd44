-- Files as numbers.
pub mod Word
