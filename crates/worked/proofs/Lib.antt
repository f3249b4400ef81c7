pub mod Cases
pub mod OwnCores
pub mod Editions
pub mod Converted
