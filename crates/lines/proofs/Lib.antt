pub mod Boxes
pub mod Climbing
pub mod Texts
