pub mod Starts
pub mod Cells
pub mod Parts
pub mod Filling
pub mod Places
pub mod Blocks
pub mod Controls
pub mod Table
