pub mod ListsFaithful
pub mod Operations
pub mod Plain
pub mod Promises
pub mod Cases
