pub mod Theta
