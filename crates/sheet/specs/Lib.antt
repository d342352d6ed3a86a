pub mod Grammar
pub mod Limits
pub mod Draft
pub mod Read
pub mod Posed
