pub mod Fields
pub mod Layers
pub mod Locations
pub mod Tellings
