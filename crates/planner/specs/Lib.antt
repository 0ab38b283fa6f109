pub mod Faults
pub mod Cycles
pub mod Drafts
pub mod Rows
pub mod Stages
pub mod Boards
pub mod Plans
