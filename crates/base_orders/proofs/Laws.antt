pub mod Union
pub mod Options
pub mod Join
