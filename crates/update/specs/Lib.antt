pub mod Names
pub mod Working
pub mod Calls
pub mod Compute
