pub mod Blocked
pub mod Solved
