pub mod Chain
pub mod Own
pub mod Wrong
