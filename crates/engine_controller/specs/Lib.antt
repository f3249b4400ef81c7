pub mod Controller
pub mod KeptWords
