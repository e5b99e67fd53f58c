pub mod Inferring
pub mod Promise
