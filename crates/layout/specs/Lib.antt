pub mod Layout
pub mod Inner
pub mod InnerRows
