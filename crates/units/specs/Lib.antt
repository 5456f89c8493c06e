pub mod Rows
pub mod Units
pub mod Kept
pub mod Found
