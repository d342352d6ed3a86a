pub mod First
pub mod Put
pub mod Read
