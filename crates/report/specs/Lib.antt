pub mod Frames
pub mod Listing
pub mod Sides
pub mod Texts
