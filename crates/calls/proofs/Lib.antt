pub mod Opened
pub mod Flowing
