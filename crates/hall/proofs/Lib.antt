pub mod Kit
pub mod HallCode
pub mod MoveTable
pub mod Reach
pub mod RightHall
pub mod Settled
pub mod Wrong
