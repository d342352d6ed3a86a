pub mod Material
pub mod Range
