pub mod Steps
pub mod Elimination
pub mod Progress
pub mod Outcome
