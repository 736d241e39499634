pub mod Bodies
pub mod Example
pub mod Lengths
pub mod Places
pub mod Settled
pub mod Verdicts
pub mod Wrong
