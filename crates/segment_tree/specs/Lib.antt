-- The words of the contracts, concept by concept.
pub mod Joins
pub mod LongestRun
pub mod LeafCount
pub mod Cells
pub mod Walk
pub mod Trees
