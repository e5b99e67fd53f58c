pub mod KeyOrder
pub mod Accepted
