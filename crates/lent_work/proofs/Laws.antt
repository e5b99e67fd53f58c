pub mod Mark
pub mod Access
