pub mod Strided
pub mod Cells
pub mod Stored
