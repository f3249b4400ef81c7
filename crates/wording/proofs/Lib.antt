pub mod WordingLaws
pub mod SentenceTheorems
pub mod ComposeLaws
