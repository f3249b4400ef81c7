pub mod NeedLaws
pub mod SearchLaws
