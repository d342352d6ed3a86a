pub mod Bound
pub mod Fits
pub mod AllPairs
pub mod OfPair
pub mod Total
pub mod Answer
