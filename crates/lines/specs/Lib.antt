-- The text of a run: its lines and their fields.
pub mod FieldSteps
pub mod Line
pub mod LineSteps
pub mod Lines
