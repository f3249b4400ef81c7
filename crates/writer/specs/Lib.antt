pub mod Written
pub mod WriterLaws
