pub mod Walk
pub mod Known
pub mod Checks
pub mod Turns
