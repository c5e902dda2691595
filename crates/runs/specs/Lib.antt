pub mod Traces
pub mod Law
pub mod Instances
pub mod Running
