pub mod Accepted
pub mod Due
pub mod JobCode
pub mod Refused
pub mod Settled
pub mod Wrong
