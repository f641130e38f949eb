pub mod BlockLemmas
pub mod ColumnLemmas
pub mod IndexLemmas
pub mod RowLemmas
pub mod TurnedLemmas
