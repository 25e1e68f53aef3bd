pub mod Memory
pub mod Answers
pub mod Loaded
pub mod Load
pub mod Response
pub mod Compute
