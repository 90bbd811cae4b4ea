pub mod Pieces
pub mod Naming
