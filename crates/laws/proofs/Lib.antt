pub mod Choice
pub mod Loops
pub mod Lists
pub mod Sums
pub mod Writing
pub mod Fill
pub mod Finite
pub mod Order
