pub mod Advances
pub mod Laying
pub mod Measuring
