pub mod Ranges
pub mod Means
pub mod Touching
pub mod Steps
pub mod Runs
pub mod PureFaithful
pub mod Clipped
