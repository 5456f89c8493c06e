pub mod Tests
pub mod Steps
pub mod Transfers
pub mod Formats
