pub mod Apart
pub mod Listing
pub mod Adding
pub mod Sorting
pub mod Circling
pub mod Ranging
pub mod Laning
pub mod Settling
