pub mod Readings
pub mod Noted
pub mod Knowing
pub mod Rooms
pub mod RoomStays
pub mod Lending
