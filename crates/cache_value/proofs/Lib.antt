mod Openings
mod Calls
mod Answers
pub mod Season
mod Runs
pub mod Tells
mod Places
