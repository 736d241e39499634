pub mod ReadLaws
pub mod StepLaws
pub mod TurnLaws
pub mod WriteLaws
pub mod Wrong
