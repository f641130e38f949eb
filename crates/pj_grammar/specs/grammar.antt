pub mod Ebnf
pub mod Words
pub mod Settings
pub mod Values
pub mod Selects
pub mod Tables
pub mod Statements
