pub mod Part
pub mod Elsewhere
