pub mod Answering
pub mod Settled
pub mod Telling
pub mod Wrong
