-- The laws of headings and lines, and the proofs of the functions. Assumes nothing.
pub mod Laws
pub mod Pieces
pub mod Held
