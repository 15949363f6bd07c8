pub mod Resample
