pub mod Groups
pub mod Rounds
pub mod Leaders
pub mod Folding
pub mod Bisimulation
pub mod Correspondence
pub mod Laws
