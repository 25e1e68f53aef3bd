pub mod Deviance
pub mod Solves
pub mod Finish
