pub mod Answer
pub mod Check
pub mod Clash
pub mod Job
pub mod Same
pub mod Tree
