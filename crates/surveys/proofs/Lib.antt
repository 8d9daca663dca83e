pub mod RowsMet
pub mod RowBits
pub mod PascalRows
pub mod Searched
pub mod Shorts
pub mod Levels
