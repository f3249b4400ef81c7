pub mod Serve
pub mod MoveLaws
pub mod ServeLaws
pub mod TurnLaws
pub mod CodeLaws
pub mod RestLaws
pub mod AdmitLaws
pub mod StepLaws
