pub mod Controls
pub mod Meaning
pub mod Sheet
