pub mod Inferred
pub mod Case1
pub mod Cases
pub mod Printed
