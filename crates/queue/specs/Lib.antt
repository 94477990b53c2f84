pub mod Queue
pub mod Machine
pub mod Claims
pub mod Rows
