pub mod Queue
pub mod Ring
pub mod Laws
pub mod Losses
pub mod Made
pub mod Seen
pub mod Standing
pub mod Asked
