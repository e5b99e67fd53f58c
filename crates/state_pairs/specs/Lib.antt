pub mod MergeCalls
pub mod Plain
pub mod Promise
