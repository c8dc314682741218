pub mod Counts
pub mod Outcomes
pub mod ManyTexts
pub mod Memory
pub mod OneText
pub mod Widths
