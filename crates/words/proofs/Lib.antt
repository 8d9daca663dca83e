pub mod EdgesInTurn
pub mod SharedRows
pub mod Additions
pub mod Summings
pub mod Offers
pub mod Counts
