pub mod Gone
pub mod Counts
pub mod Bytes
pub mod Rooms
pub mod Rekeys
pub mod Reckons
