pub mod PlainLexemes
pub mod PlainReplies
pub mod PlainRules
pub mod PlainStatements
pub mod PlainTrees
