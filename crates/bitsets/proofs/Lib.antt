pub mod Words
pub mod Counts
pub mod Laws
pub mod Arrays
pub mod Searches
