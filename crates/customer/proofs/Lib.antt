pub mod Stories
pub mod Firsts
pub mod Likes
pub mod Checks
