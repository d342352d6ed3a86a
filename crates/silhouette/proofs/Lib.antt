pub mod Known
pub mod Walks
pub mod Lengths
pub mod BySegment
pub mod Closed
pub mod Halves
