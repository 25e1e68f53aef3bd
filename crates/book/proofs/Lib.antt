pub mod Controls
pub mod Loaded
