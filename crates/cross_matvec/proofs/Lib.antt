pub mod Vectors
pub mod Dense
pub mod Skips
