pub mod Heads
pub mod Runs
