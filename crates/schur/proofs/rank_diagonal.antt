pub mod Squares
pub mod Chunks
