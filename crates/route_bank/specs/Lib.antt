pub mod Indices
pub mod Drafting
pub mod Laws
pub mod Lists
