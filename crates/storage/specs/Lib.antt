pub mod Runs
pub mod Shape
pub mod Part
pub mod Placed
