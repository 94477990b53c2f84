pub mod InnerStores
pub mod InnerReady
