pub mod Creations
