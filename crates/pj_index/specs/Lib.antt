pub mod Selection
pub mod Splits
pub mod Laws
