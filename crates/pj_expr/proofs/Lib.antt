pub mod BuiltLemmas
pub mod EvalLemmas
pub mod FitsLemmas
pub mod KindLemmas
