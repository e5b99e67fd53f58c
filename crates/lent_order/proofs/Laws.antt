pub mod Order
pub mod Insert
