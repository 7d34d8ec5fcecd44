-- The round trips of link files.
pub mod RoundTrip
