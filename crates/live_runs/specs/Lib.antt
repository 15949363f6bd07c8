pub mod Made
pub mod Running
pub mod Telling
pub mod Ran
