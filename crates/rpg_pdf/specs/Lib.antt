-- The pages of a print, the sheets that they are printed on, and the PDF of these sheets.
pub mod Contents
pub mod Made
pub mod Objects
pub mod Outcomes
pub mod Pages
pub mod Sheets
pub mod Texts
