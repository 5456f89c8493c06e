pub mod Ids
pub mod Fields
pub mod Search
