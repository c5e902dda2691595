pub mod Sent
pub mod Series
pub mod Running
pub mod Exhibits
