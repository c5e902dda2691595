pub mod Events
pub mod Faults
pub mod Preparing
pub mod Proposition
pub mod Sides
