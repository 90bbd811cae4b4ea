pub mod Refusals
pub mod Packing
pub mod Writing
pub mod Histories
pub mod Law
pub mod Story
pub mod Printing
