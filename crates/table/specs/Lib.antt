pub mod Judged
pub mod LoadedLaws
pub mod JudgeLaws
pub mod PartLaws
pub mod NamesLaws
