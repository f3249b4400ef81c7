pub mod AllCode
pub mod HandLaws
