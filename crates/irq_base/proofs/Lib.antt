pub mod Room
pub mod SignalsLeft
