-- The definitions that the contracts of `season_plan` cite. Assumes nothing.
pub mod Plans
pub mod Inner
