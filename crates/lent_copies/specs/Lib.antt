pub mod Copies
pub mod Cleared
