pub mod CutLemmas
pub mod SelectionLemmas
pub mod SpanLemmas
