pub mod KeyLemmas
pub mod WrittenLemmas
pub mod LivingLemmas
