pub mod Copied
pub mod RoomStays
pub mod Gathering
