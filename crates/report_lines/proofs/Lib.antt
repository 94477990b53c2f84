-- The laws of a report's lines, and the proofs of the functions. Assumes nothing.
pub mod Laws
pub mod Sides
