pub mod Ink
pub mod Refusals
pub mod RoundTrip
