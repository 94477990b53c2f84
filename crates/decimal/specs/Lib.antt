-- The definitions that the contracts of `decimal` cite. Assumes nothing.
pub mod Decimal
pub mod InnerReads
pub mod InnerPages
