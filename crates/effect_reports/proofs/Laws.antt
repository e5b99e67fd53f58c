pub mod Mutation
