-- The definitions that the contracts of `recorder` cite. Assumes nothing.
pub mod Reports
