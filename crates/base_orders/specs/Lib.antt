pub mod Join
pub mod Options
