pub mod Faults
pub mod Contents
pub mod Refused
pub mod Judges
pub mod File
pub mod Decodes
pub mod Writes
pub mod Round
