pub mod Masks
pub mod Places
pub mod Halves
pub mod PowerOn
mod Nexts
mod Vectors
