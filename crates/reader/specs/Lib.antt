pub mod Counted
pub mod LoadLaws
pub mod CountedLaws
