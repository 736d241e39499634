pub mod Demand
pub mod Near
pub mod Read
pub mod WalkCode
pub mod Settled
pub mod PlanCheck
pub mod Broken
pub mod Wrong
