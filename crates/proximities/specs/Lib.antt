pub mod Proximities
