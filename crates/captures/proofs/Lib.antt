pub mod Counts
pub mod Lawfuls
pub mod Ruled
