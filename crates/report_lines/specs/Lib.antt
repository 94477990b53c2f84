-- The definitions that the contracts of `report_lines` cite. Assumes nothing.
pub mod Lines
pub mod Inner
