pub mod EffectClasses
pub mod Parts
