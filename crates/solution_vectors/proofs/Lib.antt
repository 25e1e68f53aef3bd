pub mod Order
pub mod Vectors
