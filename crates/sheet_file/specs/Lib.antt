pub mod Cursors
pub mod Plans
pub mod Done
pub mod Desks
pub mod Turns
pub mod Bodies
pub mod Laid
pub mod Setters
