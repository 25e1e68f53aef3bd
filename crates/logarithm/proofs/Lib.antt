pub mod Near
pub mod Centre
pub mod Theorems
pub mod Controls
