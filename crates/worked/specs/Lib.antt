pub mod Cases
pub mod Editions
pub mod Converted
pub mod OwnCores
