-- The definitions that the contracts of `line_fields` cite. Assumes nothing.
pub mod Fields
pub mod Inner
