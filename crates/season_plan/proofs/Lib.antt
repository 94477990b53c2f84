-- The laws that the functions' proofs cite.
pub mod Marks
pub mod Deeds
pub mod Flushes
pub mod Serving
pub mod Places
pub mod Costs
pub mod Acting
pub mod Pricing
pub mod FaultLines
