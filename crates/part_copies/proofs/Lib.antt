pub mod Rows
pub mod Boards
pub mod LeftWords
pub mod Copied
