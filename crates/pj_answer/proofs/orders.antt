pub mod OrderLemmas
pub mod ValueOrder
pub mod LeastLemmas
