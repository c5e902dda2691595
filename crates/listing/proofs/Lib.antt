pub mod Apart
pub mod Reading
pub mod Rooms
pub mod Sizes
pub mod Stepping
