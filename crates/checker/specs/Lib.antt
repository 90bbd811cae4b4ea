pub mod Refusals
pub mod Moments
pub mod CheckAnswer
