pub mod Counts
pub mod Cuts
pub mod Digits
pub mod Lining
pub mod Places
pub mod Printed
