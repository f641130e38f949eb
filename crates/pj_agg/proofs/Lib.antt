pub mod ByteLemmas
pub mod ChoiceLemmas
pub mod GroupLemmas
pub mod InOrderLemmas
mod ListLemmas
pub mod PileLemmas
pub mod ReadLemmas
mod StateLawLemmas
