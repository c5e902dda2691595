pub mod Channels
pub mod Receiving
pub mod Standing
pub mod Units
