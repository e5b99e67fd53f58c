pub mod Code
pub mod MergeList
pub mod Any
pub mod Down
