-- The laws of the reader, and the proofs of the functions. Assumes nothing.
pub mod Finding
pub mod Judging
pub mod Reading
pub mod Answers
