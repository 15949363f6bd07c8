pub mod Cleared
pub mod Ranges
pub mod Sends
pub mod Balance
