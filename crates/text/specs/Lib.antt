pub mod Rules
pub mod Faults
pub mod Guards
pub mod Reading
pub mod Steps
