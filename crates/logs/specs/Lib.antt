pub mod LogBytes
pub mod LogStages
pub mod LogLaws
pub mod ReportLaws
