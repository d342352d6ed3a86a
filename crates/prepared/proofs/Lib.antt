pub mod Sunk
pub mod Pairs
pub mod Whole
pub mod Prepare
