pub mod Lists
pub mod Pieces
pub mod FieldLaws
pub mod Directions
