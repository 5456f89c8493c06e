mod Bounds
mod Strings
