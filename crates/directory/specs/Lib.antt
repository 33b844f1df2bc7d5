pub mod Cells
pub mod Directory
pub mod Edits
pub mod Pages
