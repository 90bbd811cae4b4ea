pub mod RowBits
pub mod Filling
pub mod Outcome
pub mod Numbered
pub mod Keeping
pub mod Going
