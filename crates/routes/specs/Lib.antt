pub mod Bars
pub mod Best
pub mod Check
pub mod Route
