pub mod Arrays
pub mod Edits
pub mod Refusals
pub mod Drawn
