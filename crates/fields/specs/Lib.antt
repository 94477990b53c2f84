pub mod LittleEndian
pub mod Inner
