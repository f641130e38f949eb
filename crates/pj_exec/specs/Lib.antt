pub mod Scans
pub mod Causes
pub mod Layout
