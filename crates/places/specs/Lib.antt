pub mod Panels
pub mod Bands
pub mod Permitted
pub mod Lines
pub mod Tried
pub mod Theorems
