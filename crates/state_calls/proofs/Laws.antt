pub mod Call
pub mod More
pub mod Plain
pub mod Said
