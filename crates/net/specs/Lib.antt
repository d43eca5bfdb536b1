pub mod Model
pub mod Bags
