pub mod Post
pub mod State
pub mod Tables
