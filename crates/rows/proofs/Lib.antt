-- The lemmas behind the contracts, concept by concept.
pub mod Folds
pub mod Walk
pub mod Halving
pub mod Grown
