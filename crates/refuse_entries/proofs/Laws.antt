pub mod Cases
pub mod Word
pub mod Row
pub mod State
pub mod Accepted
