pub mod Effects
pub mod Keys
pub mod Mutation
pub mod Places
