pub mod Word
pub mod Load
