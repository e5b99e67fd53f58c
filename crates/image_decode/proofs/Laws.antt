pub mod Read
pub mod State
pub mod Context
pub mod Candidate
pub mod StateBack
pub mod CandidatesBack
pub mod ContextBack
pub mod WordsBack
