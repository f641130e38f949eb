pub mod ScanLemmas
pub mod AgreeLemmas
pub mod SelectLemmas
