pub mod SlackTest
pub mod SlackTestLaws
pub mod PlanTest
pub mod PlanTestLaws
pub mod JudgingLaws
