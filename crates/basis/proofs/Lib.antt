pub mod Decides
pub mod Stores
pub mod Tables
