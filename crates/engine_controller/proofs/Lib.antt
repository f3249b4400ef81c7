pub mod ControllerLaws
