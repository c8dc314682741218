-- The lemmas behind the contracts, concept by concept.
pub mod Spans
pub mod Sums
pub mod Climbs
pub mod Doubling
pub mod LeafLists
pub mod Sound
