pub mod Candidates
pub mod Prepared
