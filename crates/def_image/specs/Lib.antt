pub mod Layout
pub mod Refusals
pub mod Decode
pub mod Listing
pub mod Infer
