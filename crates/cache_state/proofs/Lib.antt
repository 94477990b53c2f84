pub mod Views
pub mod Stored
pub mod Tells
pub mod Normals
pub mod Checks
