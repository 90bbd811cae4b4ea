pub mod Tables
pub mod Signs
pub mod Translation
pub mod Working
pub mod Building
pub mod Machines
