pub mod Post
pub mod Shuts
