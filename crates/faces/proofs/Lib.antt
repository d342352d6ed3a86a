pub mod Worked
pub mod Held
pub mod Steps
pub mod Answered
pub mod Rows
