pub mod Marks
pub mod Numerals
pub mod Downward
pub mod Samples
pub mod Exactly
pub mod Reported
