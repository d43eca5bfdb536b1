pub mod Below
pub mod Products
pub mod Lexicographic
pub mod Injections
