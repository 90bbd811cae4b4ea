pub mod Levels
pub mod Flags
pub mod Waves
pub mod Made
pub mod Once
