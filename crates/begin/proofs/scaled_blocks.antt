pub mod Shaped
pub mod Blocks
