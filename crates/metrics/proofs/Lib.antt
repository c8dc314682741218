pub mod HouseTable
pub mod Nearest
pub mod Places
