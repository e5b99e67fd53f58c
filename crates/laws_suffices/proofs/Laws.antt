pub mod Suffices
pub mod Whole
