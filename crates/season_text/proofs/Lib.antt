-- The laws of `season_text`. Assumes nothing.
pub mod Season
pub mod Closing
pub mod Answers
pub mod LineNumbers
pub mod Accepted
pub mod ThirdTable
