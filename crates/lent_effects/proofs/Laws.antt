pub mod Head
pub mod EffectWrites
pub mod Capture
pub mod EffectFrames
pub mod Back
