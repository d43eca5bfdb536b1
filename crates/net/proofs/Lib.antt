pub mod Agrees
pub mod Empty
pub mod Weights
