pub mod OfStrings
pub mod OfRows
pub mod OfImages
