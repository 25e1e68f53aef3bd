pub mod Lends
pub mod Turns
pub mod Pivotal
