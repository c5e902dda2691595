pub mod Laws
pub mod Lines
pub mod Listings
pub mod Pages
pub mod Verdicts
pub mod Worked
pub mod Written
