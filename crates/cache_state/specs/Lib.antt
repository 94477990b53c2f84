pub mod Cache
pub mod InnerView
pub mod InnerBecomes
pub mod InnerParts
pub mod InnerWith
