mod OfStrings
mod OfRows
mod OfImages
