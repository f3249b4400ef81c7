pub mod Wished
pub mod WishedLaws
pub mod SheetTheorems
