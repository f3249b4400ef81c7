pub mod Table
pub mod TaskLaws
