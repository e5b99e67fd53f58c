pub mod Lists
pub mod Use
pub mod OnLists
