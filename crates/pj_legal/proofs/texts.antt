pub mod TextLaws
pub mod TextSizes
pub mod RowTexts
pub mod FreeTexts
pub mod GranuleTexts
pub mod ReadReplies
