pub mod Accepting
pub mod Padding
pub mod CallMeans
pub mod PlainReach
