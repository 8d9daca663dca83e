pub mod Granting
pub mod Codes
