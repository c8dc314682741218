pub mod Alphabet
pub mod Law
pub mod Words
