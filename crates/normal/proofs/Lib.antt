mod Chains
mod Reducing
mod Seating
pub mod Says
