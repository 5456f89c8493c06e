pub mod Fields
pub mod Trailer
pub mod Checks
pub mod Refusals
pub mod Layers
pub mod Fresh
pub mod Blank
pub mod Texts
