pub mod Same
pub mod Controls
pub mod Meaning
