pub mod Truths
pub mod Telling
pub mod Shown
