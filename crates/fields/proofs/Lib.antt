pub mod Logarithms
pub mod Products
