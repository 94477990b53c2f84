-- The laws of sentences, and the proofs of the functions. Assumes nothing.
mod Laws
mod Readings
pub mod Sentences
mod Examples
