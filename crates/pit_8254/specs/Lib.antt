pub mod Words
pub mod Clocks
pub mod Accesses
pub mod Channels
pub mod Asks
pub mod Operations
