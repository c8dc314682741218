pub mod Staircases
pub mod Reals
