-- The laws of `log_text`. Assumes nothing.
pub mod Answers
