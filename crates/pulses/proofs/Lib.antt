pub mod Packed
pub mod Windows
pub mod Kept
pub mod Steps
pub mod Full
