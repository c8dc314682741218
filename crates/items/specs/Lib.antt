pub mod Faults
pub mod Shelves
pub mod Calls
pub mod Asked
pub mod Onward
pub mod Items
pub mod Spares
