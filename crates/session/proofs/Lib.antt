pub mod Sizing
pub mod Lending
pub mod Straying
pub mod Counting
pub mod Refilling
pub mod Narrowing
pub mod Telling
