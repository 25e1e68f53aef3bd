pub mod Diagonal
pub mod Rows
