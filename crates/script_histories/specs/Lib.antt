pub mod Merging
pub mod Kinds
