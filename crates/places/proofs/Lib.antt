pub mod Bands
pub mod Panels
pub mod Firsts
pub mod Nearest
pub mod Tries
