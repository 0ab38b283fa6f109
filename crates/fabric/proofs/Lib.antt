pub mod Cables
pub mod Feeders
pub mod Joining
pub mod Pairing
