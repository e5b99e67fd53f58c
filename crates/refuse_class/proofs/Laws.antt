pub mod Class
pub mod Least
pub mod Told
