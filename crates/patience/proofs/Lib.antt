pub mod Capping
pub mod Folding
pub mod HoldRows
pub mod Telling
