-- The laws that the functions' proofs and other crates cite.
pub mod Deductions
pub mod Refusals
pub mod Steps
