pub mod Ends
pub mod Best
pub mod Answered
pub mod Repeats
pub mod Worked
