pub mod Season
pub mod Runs
