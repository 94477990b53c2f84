pub mod Bench
pub mod Losses
pub mod Agrees
pub mod Logs
pub mod Calls
