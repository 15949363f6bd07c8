pub mod Standing
pub mod Attempts
pub mod Losses
