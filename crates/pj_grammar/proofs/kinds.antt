pub mod Sets
pub mod SetLemmas
pub mod Words
pub mod Tests
