pub mod State
pub mod Ending
pub mod Starting
pub mod Turns
pub mod Calls
