-- The laws of the report's text, and the proofs of the functions. Assumes nothing.
pub mod Laws
pub mod Answers
pub mod Longest
