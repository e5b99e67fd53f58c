pub mod Suffices
pub mod Told
pub mod Ways
pub mod Whole
