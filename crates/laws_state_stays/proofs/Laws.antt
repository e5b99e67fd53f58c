pub mod Fits
pub mod Merged
pub mod MergeCallsStay
pub mod Stays
