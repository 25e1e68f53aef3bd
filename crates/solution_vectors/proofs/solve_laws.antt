pub mod Within
pub mod Turns
pub mod Folds
pub mod InTurn
pub mod Solves
