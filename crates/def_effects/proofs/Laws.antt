pub mod Key
pub mod Mutation
