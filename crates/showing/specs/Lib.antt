pub mod Showing
