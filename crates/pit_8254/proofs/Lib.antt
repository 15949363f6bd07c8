pub mod Clocking
pub mod Asking
pub mod Advancing
pub mod Standing
pub mod Leading
