pub mod Carried
pub mod Numbers
pub mod Controlled
