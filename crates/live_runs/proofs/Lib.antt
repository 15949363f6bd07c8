pub mod Passes
pub mod Places
pub mod Ways
pub mod Rounds
pub mod Together
