-- What a reader of this project believes first: edges, the elimination game, trees, weights. No code stands behind this crate.
pub mod Table
pub mod Edge
pub mod Graph
pub mod Game
pub mod Tree
pub mod Net
pub mod Paper
pub mod Case
