pub mod Moves
pub mod Turns
