-- The definitions that the contract of `printed` cites. Assumes nothing.
pub mod Printed
pub mod Inner
