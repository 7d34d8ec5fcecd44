-- Lists that rise, and their forests.
pub mod Rising
