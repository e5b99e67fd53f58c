pub mod Word
pub mod Back
pub mod Copy
