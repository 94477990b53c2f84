-- The definitions that the contracts of `log_text` cite. Assumes nothing.
pub mod Answer
