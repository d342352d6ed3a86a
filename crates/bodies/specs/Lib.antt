pub mod Description
pub mod Check
pub mod Pose
