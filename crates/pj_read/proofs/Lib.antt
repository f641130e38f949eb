pub mod GranuleLemmas
pub mod SpanLemmas
pub mod ColumnLemmas
pub mod RowLemmas
