pub mod Held
pub mod Columns
pub mod Turns
