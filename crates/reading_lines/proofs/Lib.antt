pub mod DigitLaws
pub mod LineLaws
pub mod ReadBack
pub mod Worked
pub mod WholeSizes
pub mod WholeRead
pub mod WholeLaws
