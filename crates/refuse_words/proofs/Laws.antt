pub mod Class
pub mod Order
pub mod Stray
pub mod Told
