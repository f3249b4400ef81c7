pub mod Sentence
pub mod WordingLaws
pub mod LetterLaws
pub mod SentenceTheorems
pub mod Worked
pub mod Told
