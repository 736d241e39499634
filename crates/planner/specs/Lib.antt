pub mod Answer
pub mod Post
pub mod Promises
pub mod Stars
pub mod Steps
