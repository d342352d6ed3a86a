pub mod Known
pub mod Written
pub mod Features
