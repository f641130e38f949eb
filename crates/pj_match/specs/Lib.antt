pub mod Ranges
pub mod Sides
pub mod Laws
