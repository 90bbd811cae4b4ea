pub mod Digits
pub mod Runs
pub mod Spelling
