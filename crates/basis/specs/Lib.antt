pub mod InnerDecided
pub mod InnerStores
