pub mod Calls
pub mod Plain
pub mod Answers
