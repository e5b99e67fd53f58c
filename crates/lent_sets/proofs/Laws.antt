pub mod Bit
pub mod Cases
pub mod Code
pub mod Loop
pub mod Number
pub mod Row
pub mod Set
