pub mod Book
pub mod Handed
pub mod Parts
