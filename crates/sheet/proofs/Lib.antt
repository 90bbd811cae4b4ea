pub mod Lowering
pub mod Front
