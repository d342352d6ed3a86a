pub mod Features
pub mod Bounds
pub mod Contacts
pub mod Sizes
