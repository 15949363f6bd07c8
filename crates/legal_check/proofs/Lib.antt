mod Known
mod Ended
mod Tried
mod One
mod Lawful
