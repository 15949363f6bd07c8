pub mod ReachNow
pub mod Seen
