pub mod kinds
pub mod reads
pub mod RowLayoutLemmas
pub mod rules
pub mod WholeSentence
pub mod WordSpelling
