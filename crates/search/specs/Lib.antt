pub mod Sorting
pub mod Ranked
pub mod Rows
pub mod Along
pub mod Cells
pub mod Descent
