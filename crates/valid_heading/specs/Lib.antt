pub mod Layouts
pub mod Reached
pub mod Workspace
