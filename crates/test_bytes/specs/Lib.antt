pub mod Reads
pub mod Full
