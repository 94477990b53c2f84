-- The laws of texts and of decimal numbers, and the proofs of the functions. Assumes nothing.
pub mod Laws
pub mod Texts
pub mod Pages
pub mod Shorts
mod Examples
