pub mod Entries
pub mod Functions
pub mod Operations
pub mod Calls
pub mod Balance
