pub mod Lines
pub mod Scales
pub mod Shown
pub mod Hands
pub mod Turns
