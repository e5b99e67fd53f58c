pub mod Code
pub mod Search
pub mod Ordered
pub mod Numbered
pub mod ReadMade
pub mod Abstract
