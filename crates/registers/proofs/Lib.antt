pub mod Held
mod Places
