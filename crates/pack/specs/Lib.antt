-- How groups are packed into blocks: the lightest block, and how a tournament finds it.
pub mod Lightest
pub mod Pack
pub mod PackingSteps
pub mod TournamentSteps
