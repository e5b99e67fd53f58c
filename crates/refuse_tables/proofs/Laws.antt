pub mod Table
pub mod KeyUse
pub mod Key
