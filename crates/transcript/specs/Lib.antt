pub mod Text
pub mod Fields
pub mod Reading
pub mod Fitting
