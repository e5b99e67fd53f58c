pub mod Lent
pub mod Abstract
