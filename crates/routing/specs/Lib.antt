pub mod Faults
pub mod Tables
pub mod Links
pub mod Grids
pub mod Walks
pub mod Ways
pub mod Edges
pub mod Dependencies
