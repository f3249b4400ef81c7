pub mod Outcome
pub mod Sentences
pub mod Editions
