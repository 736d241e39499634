pub mod Due
pub mod Found
pub mod Job
pub mod Team
pub mod Told
pub mod Verdict
