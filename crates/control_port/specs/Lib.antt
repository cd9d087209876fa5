pub mod Asking
pub mod Controlling
pub mod Judging
pub mod ManyControls
pub mod OneControl
pub mod Telling
