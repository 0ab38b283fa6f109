pub mod Closing
pub mod Adding
pub mod Squares
pub mod Measuring
pub mod Choosing
pub mod Placing
pub mod Completing
pub mod FiledPairs
