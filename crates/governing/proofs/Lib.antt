pub mod Laws
pub mod Gaps
pub mod Entries
pub mod First
