pub mod Run
pub mod Finished
pub mod Rust
pub mod Step
pub mod Profile
