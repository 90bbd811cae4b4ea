pub mod Parts
pub mod Names
pub mod Tokens
