pub mod Channels
pub mod Faults
pub mod Grids
pub mod Of
pub mod Pairs
pub mod Lanes
pub mod Makes
pub mod Switches
