pub mod Sectors
pub mod DirAgain
pub mod Worked
