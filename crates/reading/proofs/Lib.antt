pub mod Arrays
pub mod OfPairs
pub mod Answer
pub mod Told
pub mod Over
pub mod There
