pub mod Heads
pub mod Offsets
pub mod Refusals
pub mod Readers
