pub mod MergeCall
pub mod Theorems
pub mod Promises
pub mod Cases
