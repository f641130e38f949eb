pub mod Eval
pub mod Fits
pub mod Tables
pub mod Parts
