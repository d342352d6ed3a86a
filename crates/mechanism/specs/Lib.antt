pub mod Description
pub mod Check
pub mod Segments
pub mod Pose
pub mod Piece
pub mod Rows
