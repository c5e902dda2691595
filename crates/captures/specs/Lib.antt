pub mod Stamps
pub mod Times
pub mod Rules
pub mod Parts
pub mod Sources
