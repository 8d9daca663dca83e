pub mod Ranks
pub mod Lowest
