pub mod Whole
pub mod Rest
