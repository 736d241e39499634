pub mod Settled
pub mod Wrong
