pub mod Laws
pub mod Turns
pub mod Band
pub mod Back
pub mod Blocks
pub mod Pivotal
