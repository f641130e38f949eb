pub mod Log
pub mod History
pub mod Moves
pub mod Parts
