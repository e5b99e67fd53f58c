pub mod Member
