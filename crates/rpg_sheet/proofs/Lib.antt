mod Blanks
mod CardLaws
mod Laws
mod Padding
mod Puts
mod SheetLemmas
pub mod UnreadableLemmas
