pub mod Check
pub mod Chosen
pub mod Judged
pub mod Lent
pub mod Same
pub mod Tree
pub mod Worked
