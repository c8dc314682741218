-- The lemmas behind the contracts, concept by concept.
pub mod Bands
