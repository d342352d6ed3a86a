pub mod Marked
pub mod Pieces
pub mod Pairs
pub mod Rows
pub mod Demand3
