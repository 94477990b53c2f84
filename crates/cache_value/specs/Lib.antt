pub mod Inner
pub mod Contract
