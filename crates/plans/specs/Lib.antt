pub mod Stages
pub mod Rules
pub mod Told
pub mod Bytes
pub mod Theorems
pub mod Texts
