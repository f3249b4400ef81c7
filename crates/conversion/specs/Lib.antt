pub mod Converted
pub mod ConvertedLaws
pub mod ConvertTerms
