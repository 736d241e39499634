pub mod Each
pub mod Edges
pub mod FloorLaws
pub mod Laid
pub mod Moves
pub mod Settled
pub mod Wrong
