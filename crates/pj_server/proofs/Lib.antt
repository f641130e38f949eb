pub mod HistoryLemmas
pub mod StateLemmas
pub mod TableLemmas
pub mod PartLemmas
pub mod StatusLemmas
pub mod MoveLemmas
pub mod PortLemmas
pub mod PlayLemmas
