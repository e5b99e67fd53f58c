pub mod Kinds
pub mod Reasons
pub mod Values
