pub mod Loops
pub mod Fill
pub mod Floats
pub mod Lists
