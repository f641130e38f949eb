pub mod Living
pub mod Keys
pub mod Written
pub mod Faults
