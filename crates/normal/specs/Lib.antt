pub mod Numbers
pub mod Seatings
pub mod Counts
pub mod Reductions
pub mod Ordering
