pub mod Below
pub mod Headers
pub mod Fitting
pub mod Short
pub mod Whole
