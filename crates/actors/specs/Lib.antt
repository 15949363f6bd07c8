pub mod Turns
pub mod Runs
pub mod Kept
pub mod Bounds
pub mod Seats
pub mod Results
pub mod Logged
