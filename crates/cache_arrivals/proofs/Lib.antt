pub mod Arrivals
pub mod Retirements
pub mod InPlace
