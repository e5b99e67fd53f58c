pub mod Marks
pub mod Access
