pub mod Boards
pub mod Finding
pub mod Keeping
pub mod Replaying
