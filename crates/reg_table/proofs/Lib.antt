pub mod Distinct
pub mod Tables
