-- A run of `blocks`: from the bytes of three files to the text that it prints.
pub mod Paper
pub mod Run
pub mod Text
