pub mod Ready
pub mod Runs
