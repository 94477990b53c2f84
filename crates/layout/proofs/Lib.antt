pub mod Rows
pub mod Rounds
pub mod Places
pub mod Stores
mod Clears
pub mod Tests
