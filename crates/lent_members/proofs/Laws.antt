pub mod Members
pub mod Words
