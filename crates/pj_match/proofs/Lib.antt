pub mod BoundLemmas
pub mod ChosenLemmas
pub mod RangeLemmas
pub mod WithinLemmas
