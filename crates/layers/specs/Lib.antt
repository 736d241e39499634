pub mod Fill
pub mod Layers
pub mod Post
pub mod Sought
