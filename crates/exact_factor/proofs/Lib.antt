pub mod Blocked
pub mod Instance
pub mod Solved
