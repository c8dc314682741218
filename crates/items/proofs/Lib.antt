pub mod Asking
pub mod Sparing
