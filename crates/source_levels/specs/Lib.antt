pub mod Holds
pub mod Flags
