-- The definitions that the contracts of `season_tables` cite. Assumes nothing.
pub mod Tables
pub mod Inner
pub mod InnerSound
