pub mod Text
pub mod Lent
