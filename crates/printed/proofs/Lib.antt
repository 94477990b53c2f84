-- The laws of `printed`. Assumes nothing.
pub mod Prints
