pub mod Counting
pub mod Reading
pub mod Description
pub mod LimitsAgree
pub mod Worked
pub mod Lents
