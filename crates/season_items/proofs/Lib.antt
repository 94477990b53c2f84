pub mod Notes
pub mod Presence
pub mod Items
