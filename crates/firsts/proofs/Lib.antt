pub mod Firsts
pub mod Passes
pub mod Ranges
