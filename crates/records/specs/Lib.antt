pub mod Kinds
pub mod Records
pub mod Checked
pub mod Verdicts
