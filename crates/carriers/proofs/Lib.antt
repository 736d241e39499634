pub mod Forms
pub mod Padded
pub mod Wrong
