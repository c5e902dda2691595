pub mod Found
pub mod Table
pub mod Upto
pub mod Width
