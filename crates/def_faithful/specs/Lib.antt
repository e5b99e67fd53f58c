pub mod Ranges
pub mod Faithful
