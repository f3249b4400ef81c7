pub mod SectionLaws
pub mod BackLaws
pub mod Left
