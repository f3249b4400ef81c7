pub mod Carried
pub mod Controlled
pub mod Numbers
