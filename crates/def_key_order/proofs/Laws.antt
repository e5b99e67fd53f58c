pub mod KeyOrder
pub mod EqualKeys
