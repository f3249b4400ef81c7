pub mod Delivered
pub mod Demand3
