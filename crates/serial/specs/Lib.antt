pub mod Format
pub mod Pairs
pub mod Rows
pub mod Runs
pub mod Windows
