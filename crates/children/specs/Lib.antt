pub mod Children
pub mod Steps
pub mod Written
