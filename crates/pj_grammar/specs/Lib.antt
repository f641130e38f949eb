pub mod Lexemes
pub mod grammar
pub mod SyntaxErrors
pub mod Laws
pub mod parsing
pub mod RowLayout
