pub mod OfUnits
pub mod OfRest
pub mod OfEnds
