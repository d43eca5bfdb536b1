mod Filling
mod Inking
mod Pushing
mod RoundTrips
mod Whole
mod Writing
