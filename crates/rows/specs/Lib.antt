-- The words of the contracts, concept by concept.
pub mod Told
pub mod Fit
pub mod Made
pub mod Asked
pub mod OneRow
