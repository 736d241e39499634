pub mod From
pub mod Goes
pub mod Least
pub mod Need
pub mod Taken
pub mod Wrong
