mod AtRound
pub mod Dividing
mod Formed
mod GroupSums
mod Growth
pub mod Layered
mod Listed
mod Loops
mod Tallied
pub mod OwnGroups
