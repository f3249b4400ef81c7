pub mod PartLaws
pub mod StoredLaws
pub mod WordsLaws
