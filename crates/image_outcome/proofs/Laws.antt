pub mod Full
pub mod Pieces
pub mod Inferring
