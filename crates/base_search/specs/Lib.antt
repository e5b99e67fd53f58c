pub mod Search
pub mod Comparings
pub mod Counting
