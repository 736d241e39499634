pub mod Marks
pub mod Post
