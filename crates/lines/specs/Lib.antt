pub mod Lines
pub mod Printed
pub mod Program
pub mod Output
