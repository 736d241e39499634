pub mod Demand
pub mod First
pub mod Lent
pub mod Walk
