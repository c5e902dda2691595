pub mod Intervals
pub mod Frames
pub mod Refusals
pub mod Steps
pub mod States
pub mod Decoding
