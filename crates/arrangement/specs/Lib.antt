pub mod Arrangements
pub mod Enumeration
pub mod EndSheets
pub mod Seats
pub mod Laws
