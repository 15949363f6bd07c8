pub mod Callers
pub mod Slots
pub mod Running
pub mod Histories
pub mod Commits
