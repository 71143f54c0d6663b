-- What the cells of a row are in a line.
pub mod Cells
pub mod Contents
pub mod Numbers
