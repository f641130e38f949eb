pub mod Words
pub mod Settings
pub mod Values
pub mod Depth
pub mod Lone
pub mod Selects
pub mod Tables
pub mod Statements
