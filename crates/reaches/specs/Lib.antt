-- The words of the contracts, concept by concept.
pub mod Reaches
pub mod Panels
pub mod Theorems
pub mod Laws
