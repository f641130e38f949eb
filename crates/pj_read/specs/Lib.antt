pub mod Spans
pub mod Causes
pub mod Layout
