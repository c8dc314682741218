pub mod Runs
pub mod Steps
pub mod Walks
pub mod Unique
