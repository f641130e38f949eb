pub mod OneKind
pub mod WishLemmas
