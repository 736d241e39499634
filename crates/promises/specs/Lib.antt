pub mod Numbers
pub mod Ours
pub mod Promises
