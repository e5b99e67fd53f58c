pub mod Order
pub mod Bool
pub mod Choice
pub mod Below
pub mod Any
