pub mod Geometry
pub mod Signed
