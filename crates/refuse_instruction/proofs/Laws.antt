pub mod Use
pub mod Instruction
pub mod Split
pub mod Parts
