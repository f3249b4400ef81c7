pub mod Columns
pub mod Stages
pub mod StageLaws
pub mod ScanLaws
