pub mod Drawing
pub mod Samples
pub mod Prepared
pub mod Points
