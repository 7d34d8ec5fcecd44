-- Texts and numbers as bytes.
pub mod Ascii
pub mod Decimal
pub mod Put
pub mod Examples
