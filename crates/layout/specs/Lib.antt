pub mod Blocks
pub mod Gate
pub mod Shapes
