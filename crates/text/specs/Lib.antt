pub mod Fault
pub mod Measure
pub mod Run
pub mod Text
pub mod HeldSums
