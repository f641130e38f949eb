pub mod BodyLaws
pub mod BodyTokens
pub mod FirstTokens
pub mod SymbolPrefix
pub mod TextPieces
pub mod TokenBytes
pub mod TokenPrefix
pub mod TokenNumbers
