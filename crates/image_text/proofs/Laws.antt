pub mod Text
pub mod Decimals
pub mod Columns
pub mod Lines
pub mod Loops
pub mod Lengths
