pub mod Pairs
pub mod Bays
pub mod Collars
