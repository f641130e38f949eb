pub mod TokenOffsets
pub mod SyntaxOffsets
