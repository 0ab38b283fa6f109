pub mod Caps
pub mod Patient
