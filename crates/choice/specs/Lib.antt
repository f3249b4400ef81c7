pub mod Key
pub mod Pick
pub mod RankPickLaws
