pub mod Blocks
pub mod Done
