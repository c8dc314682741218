pub mod Boxes
pub mod Laying
pub mod Pages
pub mod Outputs
