-- The definitions that the contract of `season_scan` cites. Assumes nothing.
pub mod Inner
