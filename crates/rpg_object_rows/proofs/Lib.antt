pub mod LetterLaws
pub mod LineLaws
pub mod TableTexts
pub mod TypeLaws
