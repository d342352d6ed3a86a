pub mod Held
pub mod Strips
