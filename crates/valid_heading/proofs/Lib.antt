pub mod Tabulated
pub mod Joined
pub mod SheetFor
pub mod Layouts
pub mod Reached
pub mod Workspace
