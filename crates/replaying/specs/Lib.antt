pub mod FileOrder
pub mod Replays
pub mod Played
pub mod Laws
