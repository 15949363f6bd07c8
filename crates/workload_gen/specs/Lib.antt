pub mod Workload
pub mod Text
pub mod Laws
