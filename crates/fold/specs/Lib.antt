pub mod Together
pub mod Grouped
pub mod Images
pub mod Kept
pub mod Divides
pub mod Listing
pub mod Layer
