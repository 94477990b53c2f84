-- The laws that the scan's proof cites.
pub mod Laws
pub mod Turns
