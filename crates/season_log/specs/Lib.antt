-- The definitions that the contracts of `season_log` cite. Assumes nothing.
pub mod Log
pub mod Inner
