pub mod Answers
pub mod ReportLaws
