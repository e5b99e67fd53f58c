pub mod Layout
pub mod Context
