pub mod Computing
pub mod Case1
