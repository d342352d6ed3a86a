pub mod Parts
pub mod Serves
pub mod Outside
pub mod Squares
pub mod Sets
pub mod Worked
