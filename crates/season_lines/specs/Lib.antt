-- The definitions that the contracts of `season_lines` cite. Assumes nothing.
pub mod Lines
