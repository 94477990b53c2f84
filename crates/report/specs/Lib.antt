-- The definitions that the contracts of `report` cite. Assumes nothing.
pub mod Report
pub mod Inner
