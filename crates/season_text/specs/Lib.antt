-- The definitions that the contracts of `season_text` cite. Assumes nothing.
pub mod Answer
pub mod ThirdTable
pub mod Inner
