pub mod Attempts
pub mod Entering
