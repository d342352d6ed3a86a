pub mod Bytes
pub mod Lists
pub mod Pieces
pub mod Fields
pub mod Records
