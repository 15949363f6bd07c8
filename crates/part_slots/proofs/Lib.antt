pub mod Inverse
pub mod Places
pub mod Running
pub mod Histories
pub mod Commits
