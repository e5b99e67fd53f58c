pub mod Mutations
