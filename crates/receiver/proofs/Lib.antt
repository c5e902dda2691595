pub mod Stepping
pub mod Readings
