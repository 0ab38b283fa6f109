pub mod Orders
pub mod Circles
pub mod Findings
pub mod Checks
pub mod Answers
