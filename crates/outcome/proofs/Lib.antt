pub mod ReadLaws
pub mod OutcomeLaws
pub mod Editions
