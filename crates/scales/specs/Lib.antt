pub mod Headings
pub mod Names
pub mod Ranges
pub mod Scales
