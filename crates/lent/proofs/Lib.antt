pub mod Copies
pub mod Keeping
pub mod MadeLaws
pub mod Wrong
