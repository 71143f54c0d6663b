-- What the bytes of records are, and how records are laid out.
pub mod Binary
pub mod CodePage
pub mod Columns
pub mod Fields
pub mod Packed
pub mod Parts
pub mod Seen
pub mod Sizes
pub mod Translations
pub mod Types
pub mod Unpacked
