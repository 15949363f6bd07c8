pub mod CountLines
pub mod Once
pub mod Unspent
