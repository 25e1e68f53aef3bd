pub mod Shapes
pub mod Workspace
