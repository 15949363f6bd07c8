pub mod Callers
pub mod Asking
pub mod Merged
pub mod Actors
