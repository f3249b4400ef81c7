pub mod Rates
pub mod RatesLaws
pub mod Arrays
pub mod Loads
pub mod ArraysLaws
pub mod Weights
pub mod StageLaws
pub mod SearchLaws
