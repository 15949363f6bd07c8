pub mod Acknowledge
pub mod Ticks
pub mod ReachLaws
pub mod OnHand
