pub mod Class
pub mod Keys
pub mod Attempt
pub mod Outcome
pub mod Isolation
pub mod Twins
