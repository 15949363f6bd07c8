pub mod Levels
pub mod Chip
pub mod Priority
pub mod Accesses
pub mod Pair
pub mod Rules
