pub mod Covers
pub mod Nodes
pub mod Promises
pub mod Weight
pub mod Wrong
