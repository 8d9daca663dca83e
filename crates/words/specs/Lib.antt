pub mod Tables
pub mod EdgeLinks
pub mod Neighbours
pub mod Offers
