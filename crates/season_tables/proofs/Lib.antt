-- The laws that the functions' proofs cite, and what holds of every text that is read.
pub mod Told
pub mod Keeps
pub mod Held
pub mod Leads
pub mod Sound
pub mod LineNumbers
