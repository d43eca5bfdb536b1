pub mod Fields
pub mod Sheets
