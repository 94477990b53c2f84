-- The laws of the exported report, sentence and log, and the proofs of the functions. Assumes nothing.
pub mod Reported
mod Said
mod Logged
