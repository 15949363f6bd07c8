pub mod Basics
pub mod Pins
pub mod Apart
pub mod Lists
pub mod Tables
pub mod SeenParts
pub mod SeenRows
pub mod SeenNow
