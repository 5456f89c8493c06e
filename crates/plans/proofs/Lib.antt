pub mod Accepted
pub mod Back
pub mod Heads
pub mod Scans
pub mod Turns
pub mod Verdicts
