-- The laws of a log, and the proofs of the functions. Assumes nothing.
pub mod Lines
pub mod OneText
pub mod Sizes
pub mod Writing
pub mod Answers
