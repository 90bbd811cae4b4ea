pub mod Words
pub mod Reading
pub mod Runs
pub mod Printing
