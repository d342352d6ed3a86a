pub mod Store
pub mod Along
pub mod Listing
pub mod Behind
