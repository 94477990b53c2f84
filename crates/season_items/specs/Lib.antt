-- The definitions that the contracts of `season_items` cite. Assumes nothing.
pub mod Inner
