pub mod Check
pub mod Chosen
pub mod Clash
pub mod Find
pub mod First
pub mod Holds
pub mod Routes
