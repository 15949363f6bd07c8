pub mod Words
pub mod Rows
pub mod Pins
pub mod Standing
pub mod Tables
pub mod Defaults
