pub mod Search
pub mod Ascending
pub mod Inserting
pub mod Comparings
pub mod Counting
