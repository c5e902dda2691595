pub mod Joined
pub mod Rows
pub mod Runs
pub mod Truths
