pub mod Words
pub mod View
pub mod Sites
pub mod Runs
pub mod Texts
