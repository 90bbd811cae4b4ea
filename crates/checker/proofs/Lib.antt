pub mod Evaluating
pub mod Walking
