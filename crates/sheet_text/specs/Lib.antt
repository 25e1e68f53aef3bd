pub mod Listed
pub mod Acceptable
pub mod written
