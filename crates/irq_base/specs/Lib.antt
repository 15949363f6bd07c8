pub mod Callers
pub mod Counts
pub mod Faces
pub mod Refusals
pub mod Text
pub mod Room
