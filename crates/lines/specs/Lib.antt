pub mod Bounds
pub mod Counts
pub mod Flights
pub mod Headings
pub mod Items
pub mod Names
pub mod Paragraphs
