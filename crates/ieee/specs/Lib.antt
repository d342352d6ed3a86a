pub mod Operators
pub mod Consts
pub mod Near
pub mod Root
pub mod Num
pub mod TotalOrder
