pub mod KeyLaws
pub mod PickLaws
pub mod TickLaws
pub mod RankPickLaws
