pub mod Classes
pub mod Table
pub mod PowerOn
