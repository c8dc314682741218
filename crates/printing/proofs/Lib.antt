pub mod Laid
pub mod Room
pub mod Short
