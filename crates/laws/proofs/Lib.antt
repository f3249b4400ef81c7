pub mod MultipleLaws
pub mod TurnLaws
pub mod SettleLaws
pub mod TakenLaws
