pub mod Registers
pub mod Priority
pub mod Messages
pub mod Offsets
