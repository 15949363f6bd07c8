pub mod Rotation
pub mod Ready
pub mod PowerOn
