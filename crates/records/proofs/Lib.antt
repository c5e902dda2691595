pub mod Counts
mod Cuts
pub mod Judged
