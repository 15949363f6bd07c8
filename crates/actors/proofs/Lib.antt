pub mod Bounds
pub mod Plays
pub mod Gathers
pub mod Ordering
pub mod Seating
pub mod Logs
pub mod Orders
pub mod Shares
