pub mod Entries
pub mod Registers
pub mod Pins
pub mod Rules
