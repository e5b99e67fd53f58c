pub mod Interning
pub mod Refresh
