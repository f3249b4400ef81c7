pub mod State
pub mod SoundState
pub mod Calls
pub mod Fit
pub mod ViewLaws
pub mod Parts
pub mod QueueLaws
pub mod CallLaws
