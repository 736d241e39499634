pub mod Lengths
pub mod Settled
pub mod TextLaws
pub mod Wrong
