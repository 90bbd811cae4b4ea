pub mod Among
pub mod Replies
pub mod Performing
pub mod Narrowing
pub mod Benches
pub mod Checking
pub mod Answering
pub mod Printing
