pub mod Cells
pub mod Sides
pub mod GridEnds
pub mod GridLinks
pub mod Walking
pub mod Stepping
pub mod Adding
