pub mod Option
pub mod EffectKey
pub mod Number
pub mod KeyRecord
pub mod KeyFrames
