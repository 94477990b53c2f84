-- The laws of fields, and the proofs of the functions. Assumes nothing.
pub mod Laws
pub mod Pieces
pub mod Held
