pub mod Xor
pub mod Multiples
pub mod Division
pub mod Messages
pub mod Feeding
pub mod Wide
pub mod Damage
