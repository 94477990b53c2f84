pub mod Empty
pub mod Blocks
pub mod Openings
