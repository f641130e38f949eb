pub mod Decided
pub mod FillingDecided
pub mod QueriesDecided
