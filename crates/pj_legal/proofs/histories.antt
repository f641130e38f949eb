pub mod ListLemmas
pub mod Histories
pub mod MoveLemmas
