pub mod Bytes
pub mod ByteLaws
pub mod StoreLaws
