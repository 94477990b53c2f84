pub mod Heap
pub mod InnerPart
pub mod InnerMoves
