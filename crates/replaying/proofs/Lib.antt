pub mod Unwished
mod Turns
mod Loops
mod Registrations
pub mod Barred
mod Merged
mod Ordered
mod Lines
mod Firsts
mod Answering
mod OneReplay
