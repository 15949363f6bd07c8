pub mod Places
pub mod EachWord
