pub mod Hall
pub mod Landing
pub mod Lent
pub mod Moves
pub mod Near
