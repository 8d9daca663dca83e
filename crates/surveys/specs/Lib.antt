pub mod Tables
pub mod PascalRows
pub mod Members
pub mod Answers
