pub mod InOrder
pub mod States
pub mod Groups
pub mod StateColumns
pub mod Layout
pub mod AggStates
pub mod StateLaws
