pub mod Broken
pub mod Checks
pub mod Kept
pub mod Library
pub mod Numbers
pub mod Passing
pub mod Settle
