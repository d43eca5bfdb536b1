pub mod Views
pub mod Shifts
pub mod Tables
pub mod Opening
