pub mod Lent
pub mod Post
